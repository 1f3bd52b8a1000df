mod Hands
mod Reading
