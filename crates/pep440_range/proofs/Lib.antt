pub mod BackLaws
pub mod StarLaws
pub mod OperandLaws
pub mod MakingLaws
pub mod LimitLaws
pub mod RaiseLaws
