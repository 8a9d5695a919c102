mod One
mod Measure
mod Answers
mod Reactions
