mod AllPass
mod Nearest
mod Numerals
mod NumericTexts
mod ReadBack
mod SoundTexts
