pub mod DoubtLaws
pub mod FrontLaws
pub mod JudgeLaws
mod SeenLaws
pub mod StepLaws
mod Taken
mod FindLaws
mod PastLaws
