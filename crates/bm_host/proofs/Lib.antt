pub mod NamedLaws
pub mod OutsideLaws
pub mod WrittenLaws
