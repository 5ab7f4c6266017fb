mod Readings
mod Outcomes
mod Commands
