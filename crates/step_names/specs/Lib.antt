mod ExecView
pub mod Thread
pub mod Written
pub mod Grammar
pub mod Under
pub mod Order
pub mod Laws
mod Rows
