mod PartLaws
mod ReadSteps
