-- Label lists, and the labels that operations make.
pub mod Labels
pub mod Forms
pub mod Checked
pub mod inner
