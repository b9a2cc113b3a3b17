mod Chained
mod Named
