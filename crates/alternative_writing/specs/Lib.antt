-- What the functions ask that write the text of an alternative; alternative_texts says what that text is.
pub mod Inner
