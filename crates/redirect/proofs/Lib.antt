mod Words
mod Fits
