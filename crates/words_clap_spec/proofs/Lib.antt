mod Rows
mod Turns
mod Entries
mod LinkRows
mod LinkTurns
mod LinkWalk
mod UnlinkWalk
mod MeasureWalk
mod PathWalk
pub mod PlainWords
