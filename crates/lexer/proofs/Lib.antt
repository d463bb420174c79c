pub mod NumbersLaws
pub mod ScanSteps
pub mod DecimalLaws
pub mod NumberScan
pub mod KeyLaws
pub mod KeyScan
pub mod LineLaws
pub mod LineFound
