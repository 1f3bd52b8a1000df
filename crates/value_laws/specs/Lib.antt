pub mod Laws
pub mod Grammar
