mod Lines
mod Alike
mod Late
