pub mod IdentLaws
pub mod LetterLaws
pub mod PlaceRows
pub mod DottedMaking
pub mod PastPartLaws
pub mod ScanLimits
