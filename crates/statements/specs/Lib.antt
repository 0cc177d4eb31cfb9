pub mod Items
pub mod Statement
pub mod View
