mod Chaining
mod CookieKeeping
mod Pairing
mod Places
