pub mod DrillLaws
pub mod OneLine
pub mod RowLaws
