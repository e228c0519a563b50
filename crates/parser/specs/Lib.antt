-- What the functions of the parser ask and tell of a whole text. The contract of `parse` is grammar/specs/Answers.
pub mod Inner
