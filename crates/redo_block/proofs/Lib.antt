mod FrameRound
mod Framings
mod RunFirsts
