-- When some text gives a tree; what a refused text shows.
pub mod GivingTexts
pub mod Shown
