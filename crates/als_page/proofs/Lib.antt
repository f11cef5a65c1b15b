pub mod SlotLaws
pub mod HeadLaws
pub mod SlotsLaws
pub mod BlockLaws
pub mod SameLaws
