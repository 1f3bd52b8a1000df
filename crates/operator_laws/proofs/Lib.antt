mod Commuting
mod SoundResults
mod Turning
mod Division
