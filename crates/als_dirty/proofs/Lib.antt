pub mod RowLists
pub mod ImageSteps
pub mod TableSteps
pub mod ListSteps
mod WorkedRows
