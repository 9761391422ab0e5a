mod KeptClocks
mod Marking
mod RunWalk
mod Verdict
