pub mod AnyBottom
pub mod AnyBottomLaws
pub mod AnyRule
pub mod Begins
pub mod Hierarchy
pub mod HierarchyLaws
pub mod Pace
