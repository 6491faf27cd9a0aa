mod TextLaws
mod BodyLaws
mod AgreeLaws
mod LogLaws
mod PastLaws
pub mod ScopeLaws
