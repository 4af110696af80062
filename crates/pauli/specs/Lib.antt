pub mod Word
pub mod Letter
pub mod Support
pub mod ProductLaws
pub mod LetterLaws
pub mod SupportLaws
