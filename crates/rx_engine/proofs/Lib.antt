mod BuildLaws
pub mod GroupLaws
pub mod CountLaws
pub mod StaticLaws
