mod DebTexts
mod GemTexts
mod RpmTexts
mod TermTexts
