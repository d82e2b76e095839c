pub mod Ordered
pub mod OrderedLaws
pub mod Scripted
pub mod ScriptedLaws
