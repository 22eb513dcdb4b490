pub mod ShellState
pub mod LineAnswers
pub mod Works
