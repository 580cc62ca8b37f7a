mod Bytes
mod Doubles
