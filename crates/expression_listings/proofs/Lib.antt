-- The laws of listings of trees: values are codes, what the rows come to.
pub mod ValueCodes
pub mod RowListings
