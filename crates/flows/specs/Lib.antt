pub mod Net
pub mod Flow
pub mod Models
pub mod NetFormat
pub mod FlowFormat
pub mod Roads
