mod Taken
mod Written
