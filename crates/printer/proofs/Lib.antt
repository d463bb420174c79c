pub mod LineLaws
pub mod ReportLaws
pub mod HoldersLaws
pub mod PrintedLaws
