pub mod Adding
pub mod ExpressionNotes
