pub mod LayoutLaws
pub mod ViewLaws
pub mod RowLaws
pub mod PoolLaws
pub mod StoreLaws
pub mod SheetLaws
pub mod InstrLaws
