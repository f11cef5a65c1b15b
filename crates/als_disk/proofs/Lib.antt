pub mod Answered
mod Full
mod Maps
mod MirrorLaws
mod Picks
