pub mod Picture
pub mod Grammar
pub mod View
pub mod Fault
pub mod Reading
pub mod Keeps
pub mod FirstFault
pub mod HasFault
