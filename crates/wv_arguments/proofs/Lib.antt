mod Numbers
mod Commands
mod Computed
