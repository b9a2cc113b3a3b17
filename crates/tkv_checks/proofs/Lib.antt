mod Leads
mod Closings
mod Reading
