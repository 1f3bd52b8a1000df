mod Floor
mod ReadBack
mod SoundResults
mod Texts
mod Fixing
