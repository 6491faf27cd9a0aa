pub mod NotingLaws
