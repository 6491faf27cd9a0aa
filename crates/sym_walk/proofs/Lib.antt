pub mod Hooking
