pub mod HalfLaws
pub mod RefusalLaws
