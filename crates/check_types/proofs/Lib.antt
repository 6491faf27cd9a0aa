mod ConstantTypes
mod WordLaws
mod OwnLaws
mod ListLaws
mod TreeLaws
