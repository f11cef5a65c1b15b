pub mod Parts
pub mod Answering
pub mod RankOrder
mod RankRows
