pub mod Sides
pub mod Refusals
pub mod Answering
pub mod ClausesRead
pub mod ListsRead
pub mod TextsRead
