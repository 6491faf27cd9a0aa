mod SignLaws
mod WordLaws
mod Complete
mod BracketLaws
mod DeclarationLaws
mod Begins
mod StatementLaws
mod StatementKnot
mod ItemLaws
mod ClosedLaws
mod SourceLaws
mod ReadLaws
mod SoundOperands
mod SoundExpressions
mod WitnessLaws
mod SizedStatements
mod SoundBrackets
mod SoundDeclarations
mod SoundStatements
mod SoundBlocks
mod SoundItems
mod SoundClosed
mod ItemLengths
mod SoundSources
mod SpotLaws
mod Along
mod OrderedExpressions
mod OrderedStatements
mod OrderedItems
mod Passing
mod FormedExpressions
mod FormedStatements
mod NestedStatements
mod FormedItems
pub mod OrderlyTokens
pub mod Views
mod ReadSteps
mod TypeCountLaws
mod NameLaws
mod WitnessAnswers
mod ResultAnswers
pub mod PassingLaws
pub mod ListLaws
pub mod ParsingLaws
pub mod ClosedSteps
pub mod LowLaws
pub mod SourceViews
pub mod StatementSteps
