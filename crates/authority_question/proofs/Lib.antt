pub mod HeldLaws
pub mod ReportLaws
