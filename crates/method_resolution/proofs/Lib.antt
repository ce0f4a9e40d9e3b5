pub mod ListFacts
pub mod AssembledLists
pub mod Overfilling
pub mod OneMore
pub mod Judging
pub mod Deciding
pub mod Findings
pub mod Answering
