mod Images
mod Served
