mod Appended
mod Lines
