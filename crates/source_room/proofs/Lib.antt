mod TokenLengths
mod ExpressionLengths
mod DeclarationLengths
mod StatementLengths
mod ItemLengths
mod Programs
