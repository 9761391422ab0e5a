pub mod AskerSets
pub mod HomeTurns
pub mod LinkRooms
pub mod Roomy
pub mod ServedAnswers
pub mod TurnTells
pub mod WaitingLines
